pub mod Callers
pub mod DeepCalls
pub mod Histories
pub mod Lawfulness
pub mod Names
pub mod StoreCalls
pub mod StreamCalls
