-- What the table of kinds in the code is held against, and what an examined sheet holds, beside the model.
pub mod FieldLimits
pub mod Shape
