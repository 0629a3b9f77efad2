pub mod Tests
pub mod Tops
pub mod Below
pub mod Same
