pub mod Files
pub mod FilesOf
