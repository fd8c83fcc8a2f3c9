pub mod PriceArguments
