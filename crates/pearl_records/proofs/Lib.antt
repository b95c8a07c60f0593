mod Channels
mod RowLaws
mod Cores
mod Making
