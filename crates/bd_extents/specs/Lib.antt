pub mod Bitmap
pub mod FreeBlocks
