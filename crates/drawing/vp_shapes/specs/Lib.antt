-- the rules: which dots a shape has
pub mod Ellipses
pub mod RoundCorners
pub mod Diagonals
-- what the code keeps: the edges of a row
pub mod Sides
