pub mod FileTurns
pub mod FileParts
pub mod FolderKinds
pub mod OneFault
pub mod SourceSizes
pub mod ScriptSizes
pub mod FewFunctions
