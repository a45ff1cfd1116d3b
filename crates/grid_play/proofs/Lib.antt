mod CutLemmas
mod GridLemmas
mod CommandsLemmas
mod ScriptLemmas
mod RunLemmas
mod OutputLemmas
mod ScriptExamples
