pub mod Mech
pub mod Label
pub mod Mark
pub mod Name
pub mod Principal
pub mod Signs
pub mod Bindings
pub mod SameName
