pub mod MergedRow
