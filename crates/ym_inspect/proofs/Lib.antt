mod PairLemmas
mod PcapLemmas
mod ReadBackLemmas
mod RecordLemmas
mod TellLemmas
