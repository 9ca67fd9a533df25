pub mod CopyAnswers
