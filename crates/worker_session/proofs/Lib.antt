mod SettingLemmas
mod WayLemmas
mod StepLemmas
mod LookLemmas
mod StartLemmas
pub mod Theorems
