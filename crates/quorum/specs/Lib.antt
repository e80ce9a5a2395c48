pub mod Making
pub mod Refusals
pub mod Sets
pub mod Systems
pub mod Laws
pub mod Members
pub mod Chains
pub mod Words
