pub mod AskLemmas
pub mod CallLemmas
pub mod IdLemmas
pub mod ListLemmas
pub mod SocketLemmas
