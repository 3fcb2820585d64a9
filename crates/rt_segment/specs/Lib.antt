pub mod Cursor
pub mod Column
pub mod Segment
pub mod Spelling
pub mod Reading
pub mod FileRight
pub mod Bodies
