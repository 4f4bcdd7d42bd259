pub mod Results
pub mod Answers
pub mod Trails
