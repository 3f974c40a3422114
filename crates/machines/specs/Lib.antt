pub mod Closure
pub mod Machine
pub mod Tables
pub mod Shapes
pub mod Questions
pub mod Meant
pub mod Arcs
pub mod Matrix
