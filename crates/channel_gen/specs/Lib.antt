pub mod MadeChannel
