pub mod FilesLaws
