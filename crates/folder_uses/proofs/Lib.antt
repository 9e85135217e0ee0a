mod MemFolderLemmas
mod StoredLemmas
