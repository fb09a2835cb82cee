pub mod FirstArrival
pub mod SeenArrival
