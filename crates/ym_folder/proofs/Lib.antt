mod FolderLemmas
mod OneNameLemmas
mod PlacedLemmas
mod PutSoFarLemmas
mod SinkLemmas
