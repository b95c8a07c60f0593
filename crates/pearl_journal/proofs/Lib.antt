mod JournalLaws
mod TextLaws
mod TextFits
mod ValueFits
mod FitLaws
mod NumberLaws
mod BlankLaws
mod MeaningLaws
mod CodeLaws
mod PieceLaws
mod CutLaws
pub mod Offered
