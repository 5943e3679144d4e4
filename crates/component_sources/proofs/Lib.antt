mod ScriptLines
mod Scripts
mod Components
