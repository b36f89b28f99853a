pub mod PlainSound
