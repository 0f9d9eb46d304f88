mod MemoryLemmas
mod SplitLemmas
