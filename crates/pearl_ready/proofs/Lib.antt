mod BestLaws
mod RowLaws
