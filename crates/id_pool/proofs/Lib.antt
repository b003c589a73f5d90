pub mod Theorems
mod BitmapLemmas
mod LevelsLemmas
mod PoolLemmas
