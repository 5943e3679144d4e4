pub mod FileCode
