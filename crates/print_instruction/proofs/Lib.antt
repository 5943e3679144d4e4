pub mod PrintRow
