pub mod ChaptersLaws
pub mod TablesLaws
