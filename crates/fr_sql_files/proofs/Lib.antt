mod ShutLemmas
mod LinkLemmas
