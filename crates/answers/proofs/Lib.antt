pub mod AnswerLaws
pub mod RefusedLaws
