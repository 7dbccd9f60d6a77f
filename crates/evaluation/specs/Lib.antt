-- What an evaluation answers, by way of the book that the code keeps.
pub mod Evaluation
pub mod Book
pub mod EvaluationLaws
