pub mod TextLemmas
pub mod JsonLemmas
pub mod TokenLemmas
pub mod HexLemmas
pub mod CommandLemmas
