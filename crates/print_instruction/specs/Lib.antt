pub mod PrintDone
