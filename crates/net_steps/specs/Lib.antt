pub mod Did
