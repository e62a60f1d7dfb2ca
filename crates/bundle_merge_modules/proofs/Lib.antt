mod AnswerLemmas
mod PourLemmas
mod PlacedLemmas
mod InlinedLemmas
mod TreeLemmas
mod AliasLemmas
mod EndLemmas
mod PairLemmas
