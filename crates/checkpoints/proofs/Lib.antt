mod ProgressLemmas
mod RowLemmas
mod DoneLemmas
mod ContinuationLemmas
mod SizeLemmas
mod PrefixLemmas
mod EndlessLemmas
