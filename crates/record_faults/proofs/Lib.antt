pub mod FaultsLaws
