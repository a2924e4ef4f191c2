pub mod Scopes
pub mod SceneOf
