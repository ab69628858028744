pub mod RecordsLaws
pub mod ValuesLaws
