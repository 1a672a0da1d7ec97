pub mod RecordsLaws
