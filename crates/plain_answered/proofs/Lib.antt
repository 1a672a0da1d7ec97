pub mod PlainAgreeLaws
