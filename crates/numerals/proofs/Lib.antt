-- Laws on hexadecimal digits, and on texts one after the other.
pub mod Digits
mod Lists
