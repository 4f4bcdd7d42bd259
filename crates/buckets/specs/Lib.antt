pub mod Buckets
pub mod Results
