mod Wraps
mod Characters
mod Finding
mod Blanks
mod Digits
