-- Document 01's layered models from numbers, and models computed.
pub mod ModelModulo
pub mod ListedModel
pub mod ListedModelLaws
pub mod Computed
