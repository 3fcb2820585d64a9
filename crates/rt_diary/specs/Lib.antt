pub mod IsDiary
