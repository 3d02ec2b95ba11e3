-- Each no-op that is added is needed.
pub mod VainDraft
pub mod VainNotes
pub mod VainPaths
pub mod VainRun
pub mod VainWithout
