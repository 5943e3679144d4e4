mod GoingOn
mod Bounds
mod Sources
mod TaskRuns
mod ObserverRuns
mod KeyRuns
