mod Rising
mod Counting
