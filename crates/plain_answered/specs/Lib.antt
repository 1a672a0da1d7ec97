pub mod PlainAgree
