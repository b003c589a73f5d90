pub mod Advancing
pub mod Beginning
pub mod Left
pub mod Progressing
pub mod Sitting
pub mod Stepping
