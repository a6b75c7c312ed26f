pub mod SoFar
pub mod OneText
