pub mod FilledSheet
