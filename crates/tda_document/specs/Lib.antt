pub mod Raw
pub mod Keys
pub mod Typed
pub mod Origins
pub mod Names
pub mod Sizes
pub mod Known
pub mod Document
