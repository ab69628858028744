pub mod EntriesLaws
pub mod ModelLaws
pub mod PrintedLaws
